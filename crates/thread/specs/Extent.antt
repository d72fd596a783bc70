-- Where a span begins and ends. Assumes nothing.
use Rattle.std.specs.Prelude.{ℕ}

pub record Extent : Type 0 where
  pub begin : ℕ
  pub end : ℕ
