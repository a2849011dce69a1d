pub mod OneReading
