-- The single runs, shown by computation.
mod Computing
mod Shown
mod Shortcuts
mod Freedoms
mod Needed
