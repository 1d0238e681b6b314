pub mod Decimal
pub mod DecimalLaws
pub mod Spread
