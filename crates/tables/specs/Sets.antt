-- Sets of places, in cells of 64 bits, two cells to a set. Assumes nothing.
pub use Rattle.bitset.specs.Cells.{InSet, Marked}
