pub mod WorkedTraces
