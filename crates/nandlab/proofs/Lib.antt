mod Exiting
mod Holding
mod Refusing
mod ClapSteps
mod ClapWords
mod Accepted
mod Parsed
