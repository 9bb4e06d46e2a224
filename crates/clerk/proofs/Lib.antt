pub mod GreatestAssignment
