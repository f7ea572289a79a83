mod Applying
mod Directions
mod Looking
mod Using
