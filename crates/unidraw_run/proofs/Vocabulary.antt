-- The names that the proofs of this crate share.
pub use Rattle.unidraw_run.specs.Vocabulary.{ArgumentConflict, BenchFault, DisplayHelp, DisplayVersion, HasFault, HasKind, HasRangeFault, IsFaultOfScript, IsLines, IsPage, IsPicture, Kinds, Memory, Misdrawn, OfRange, PictureFault, RangeFault, Script, Write, WritesSuch, app_of, fault_of, found_of, kind_of, matches_of, new_app, out-Command, rows_of, scripts_of, status_of, versioned, with_rule}
pub use Rattle.std.proofs.Common.{Bool, Err, IsErrOf, List, None, Ok, Option, Result, Some, [], ap, ap₂, arith, codes, drop, false, fold, inl, inr, is_some, map, option_map, refl, rules, subst, sym, true, ℕ, ◌++◌, ◌∙◌, ◌∷◌, ◌≡◌, ◌≢◌, ◌≤◌}
pub use Rattle.std.proofs.lemmas.Result.{IfOk-at_ok, IfOk-weaker, MatchResult-at_err, MatchResult-at_ok}
pub use Rattle.clap.specs.Words.{is_simple, is_simple_and_free}
pub use Rattle.clap.specs.declared.error.kind.ErrorKind.TheVariants.{OutOfMemory}
pub use Rattle.command_line.proofs.ErrorKinds.{memory_of, not_of_kind}
pub use Rattle.uni_script.specs.Ends.{AppendsPrefix}
pub use Rattle.uni_script.specs.Statuses.{TellsFault}
pub use Rattle.unidraw_run.specs.CommandLine.{faults_of_words, faults_with, form_among, form_options, form_with, forms_used, option_shown, request_in, unidraw, unless_faulty, with_options}
pub use Rattle.unidraw_run.specs.Drawn.{HasNoPicture, IsDrawn, IsPictureIn, IsStatusOfPicture, TellsPictureFault, is_streamed, may_write_before, picture_fault_line, range_of, status_of_picture}
pub use Rattle.unidraw_run.specs.declared.program.Form.{Form}
