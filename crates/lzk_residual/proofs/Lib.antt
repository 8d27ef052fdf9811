mod BoundLaws
mod ClaimLaws
mod PointLaws
mod ResidualLaws
