mod Adding
mod AddedUp
