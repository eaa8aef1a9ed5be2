use Rattle.std.proofs.Common.{◌≡◌, ◌++◌, take, string_bytes}
use Rattle.std.specs.List.{flat_map}
use Rattle.mm_print.specs.HeadLines.{site_text}
use Rattle.mm_print.proofs.head.put_sites.Given as goal

abbrev pub invariant-loop-site : goal.invariant-loop-site
invariant-loop-site l = string_bytes l.out ≡ string_bytes l.fn.out ++ flat_map site_text (take l.site-index l.sites)
