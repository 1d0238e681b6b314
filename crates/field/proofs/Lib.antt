pub mod Laws
pub mod RingLaws
pub mod SumLaws
pub mod PowersLaws
pub mod TablesLaws
