mod NeverLost
mod Visits
mod Sound
