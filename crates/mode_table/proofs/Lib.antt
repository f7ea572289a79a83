mod Turning
mod Lasting
