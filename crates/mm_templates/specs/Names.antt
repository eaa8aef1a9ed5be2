-- The names that a woven program gives to what its source has no name for. They begin with wm_, which no name of a source does.
use Rattle.std.specs.Prelude.{ℕ, codes}
use Rattle.mm_goto.specs.declared.ident.Ident.{Ident}
use Rattle.mm_words.specs.Words.{numbered}

-- the local of that number
abbrev pub local_name : ℕ → Ident
local_name l = numbered (codes "wm_r") l

-- the label of the instruction at that place in its thread
abbrev pub label_name : ℕ → Ident
label_name i = numbered (codes "wm_") i

-- the variable that holds the thread
abbrev pub handle_name : ℕ → Ident
handle_name u = numbered (codes "wm_t") u

-- the thread's function
abbrev pub thread_name : ℕ → Ident
thread_name u = numbered (codes "wm_thread") u
