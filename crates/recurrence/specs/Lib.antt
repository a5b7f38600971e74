-- what the contracts cite
pub mod Convolution
pub mod Recurrence
pub mod Steps
pub mod OneStep
pub mod Factor
