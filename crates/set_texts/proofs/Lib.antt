mod Bits
mod Grown
mod RunTexts
mod Written
