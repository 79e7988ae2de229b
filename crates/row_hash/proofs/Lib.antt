pub mod PlacesInside
