pub mod LeastLaws
pub mod MeasureLaws
