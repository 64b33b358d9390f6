-- Jobs whose new row is their old one.
pub mod SettledJobs
