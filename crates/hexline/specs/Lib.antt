pub mod HexLine
pub mod HexCall
pub mod HexLaws
