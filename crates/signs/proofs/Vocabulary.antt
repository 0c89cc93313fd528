-- The names that the proofs of this crate share.
pub use Rattle.std.proofs.Common.{All, IsTrue, List, [], arith, drop, length, map, rules, subst, sym, ◌∷◌, ◌≡◌, ◌≤◌}
pub use Rattle.signs.specs.Signs.{AreApartFrom, AreClear, AreInSight, AreShown, Fills, IsHighEnough, IsInView, Shows, done, meaning, places_shown, plain, shown}
pub use Rattle.signs.specs.declared.sign.Part.{Part}
