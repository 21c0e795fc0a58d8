mod AccValues
mod Places
mod Tables
