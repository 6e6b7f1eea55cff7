pub mod Kind
pub mod Wires
pub mod TimersFirst
pub mod Widest
pub mod KindLaws
