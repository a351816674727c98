-- What public contracts promise.
pub mod RunViews
pub mod RunActions
pub mod PlaceLists
pub mod Differences
pub mod FirstDifferences
-- What the functions inside promise.
pub mod SameWorlds
