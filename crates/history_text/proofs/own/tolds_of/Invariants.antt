use Rattle.std.proofs.Common.{◌≡◌, ◌++◌, ◌+◌, drop, map}
use Rattle.std.specs.Prelude.{option_map}
use Rattle.ready_objects.specs.Words.{bytes_of}
use Rattle.history_text.specs.Own.{first_bad, tolds_of}
use Rattle.history_text.proofs.own.tolds_of.Given as goal

-- what was told, and what is left to be told, are what all lines tell; and no line so far is bad
abbrev pub invariant-loop-line : goal.invariant-loop-line
invariant-loop-line g l = record {
  told : option_map (λ tolds. map (λ placed. placed.told) l.tolds.items ++ tolds) (tolds_of g.O.Worded.wording (bytes_of (drop l.line-index l.lines)))
      ≡ tolds_of g.O.Worded.wording (bytes_of l.lines);
  first : first_bad g.O.Worded.wording (l.number + 1) (bytes_of (drop l.line-index l.lines)) ≡ first_bad g.O.Worded.wording 1 (bytes_of l.lines);
  counted : l.number ≡ l.line-index;
}
