pub mod Cutting
pub mod Fronts
pub mod Cutters
pub mod Items
pub mod PackedKeys
pub mod PackedCuts
pub mod PackedParts
