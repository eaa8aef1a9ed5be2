pub mod Class
pub mod Lexemes
pub mod Marks
pub mod Piece
pub mod Place
pub mod Tokens
