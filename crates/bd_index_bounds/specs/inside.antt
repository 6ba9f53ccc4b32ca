pub mod BoundsView
