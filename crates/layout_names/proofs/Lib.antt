mod Grows
mod OwnNames
