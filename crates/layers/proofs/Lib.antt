mod Nth
mod Regrouping
mod Placed
mod Refused
mod Uniting
mod Muting
