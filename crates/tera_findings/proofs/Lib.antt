pub mod FindingsLemmas
