mod HexText
mod Puts
