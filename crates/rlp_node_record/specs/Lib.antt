pub mod NodeFields
pub mod NodeKeys
pub mod NodeRecord
pub mod NodeLaws
pub mod NodeText
