mod Seeing
mod Four
mod FirstBroken
mod Serving
mod Windows
mod Mending
