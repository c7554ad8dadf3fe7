pub mod CodedMatrix
