pub mod ChainAsked
