pub mod ListingLaws
