-- The names that the proofs of this crate share.
pub use Rattle.std.proofs.Common.{Bool, List, None, Option, Some, [], ap, arith, drop, false, if◌then◌else◌, inl, inr, length, length-set, min, nat_le, nat_lt, option_map, refl, replicate, rules, slice_get, slice_index, slice_index_or, slice_set, subst, suc, sym, take, tests, true, zero, ℕ, ◌*◌, ◌++◌, ◌+◌, ◌-◌, ◌<◌, ◌^◌, ◌∙◌, ◌∷◌, ◌≡◌, ◌≤◌, ◌⊎◌}
pub use Rattle.std.specs.Option.{option_or}
pub use Rattle.program_object.specs.Faults.{IsProgram, first_flaw, flaw_of, has_place, greatest_register, jump_flaw, length_fault, loop_flaw, most_in, most_of, most_steps, program_fault, target_flaw, width_fault, widths_of}
pub use Rattle.program_object.specs.Machine.{HasEnded, Machine, after, answers, area, begun, computed, gets, goes_on, holds, loops, machine_of, place_in, step, stores, step_by, wrapped}
pub use Rattle.program_object.specs.Source.{Source, source}
pub use Rattle.program_object.specs.declared.instruction.Instruction.{Instruction}
pub use Rattle.program_object.specs.declared.instruction.Instruction.TheVariants.{Again, Answer, Compute, Jump, Load, Set, Store, Wrap}
pub use Rattle.program_object.specs.declared.program.Flaw.{Flaw}
pub use Rattle.program_object.specs.declared.program.ProgramFault.{ProgramFault}
pub use Rattle.program_object.specs.declared.program.ProgramFault.TheVariants.{BadInstruction}
pub use Rattle.program_object.specs.declared.program.Widths.{Widths}
