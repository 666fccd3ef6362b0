pub mod DueLemmas
pub mod EditorLemmas
pub mod ListLemmas
pub mod RuleLemmas
pub mod SiteLemmas
pub mod TemplateNames
pub mod TextMaps
pub mod UnreadLemmas
