mod Gathered
mod LineLaws
mod LineSteps
mod RoomLaws
mod Seats
mod TextLaws
mod Turns
