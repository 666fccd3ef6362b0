pub mod MapOf
