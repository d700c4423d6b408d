pub mod WorkLaws
pub mod SumLaws
pub mod MeasureLaws
