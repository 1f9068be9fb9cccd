mod Adding
mod Within
mod OrderBytes
mod OrderFits
mod OrderRoom
