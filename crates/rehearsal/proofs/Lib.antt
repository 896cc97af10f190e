mod Visits
mod Waiting
mod AtRest
mod AllChoices
mod TurnLaws
mod DrawLaws
mod EndLaws
mod FullLaws
