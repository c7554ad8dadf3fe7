pub mod CodedNco
