-- Programs without atomic sections.
use Rattle.std.specs.Prelude.{◌≡◌, false, All}
use Rattle.mm_goto.specs.Listing.{Listing}
use Rattle.mm_goto.specs.Sourcelike.{is_section}

-- no thread has an atomic section
abbrev pub HasNoSection : Listing → Type 0
HasNoSection p = All (λ thread. All (λ i. is_section i ≡ false) thread.code) p.threads
