mod LastPass
mod Lifting
mod NewSeats
mod NoneLent
