pub mod Turning
pub mod Nearing
pub mod Walking
pub mod NearLaw
pub mod LookupLaw
pub mod NearestLaw
pub mod TallyLaw
