pub mod RunCalls
pub mod WholeCall
