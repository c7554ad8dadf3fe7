pub mod CodedQ15
