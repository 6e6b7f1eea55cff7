pub mod PageLoads
