-- What the pointer of a handle owns (this project's profile). Assumes nothing: this is a definition.
use Rattle.std.specs.Prelude.{Option}
use base.Fml.{Fml}
use denote.RawPtr.{Ptr}
use Rattle.std.specs.contracts.impls.GlobalAllocator.TheImpl.{ghosts}
use Rattle.unit_calls.specs.Held.{held_owns, the_heap}
use Rattle.unit_calls.specs.declared.handle.Content.{Content}
use Rattle.unit_calls.specs.contracts.handle.Content.{the_row}

abbrev pub raw_owns : Ptr → Option Content → Fml
raw_owns p o = held_owns (ghosts.dealloc_token the_heap) the_row p o
