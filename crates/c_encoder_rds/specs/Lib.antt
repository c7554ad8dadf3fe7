pub mod CodedRds
