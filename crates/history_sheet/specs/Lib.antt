pub mod Sheet
pub mod Laying
pub mod Stages
pub mod Board
pub mod Answers
