use Rattle.std.proofs.Common.{rules, arith, ◌≡◌, ◌+◌, ◌-◌, ◌≤◌, ◌<◌, ◌∙◌, ap, sym, take, drop, length, length-append, length-drop}
use Rattle.std.proofs.lemmas.List.{drop_all}
use Rattle.ends.specs.Memory.{SourceState}
use Rattle.ends.proofs.Parts.{read_splits}
use Rattle.ends.proofs.memory.MemorySourceSource.read.Goals as goal

pub returns-clause-bytes : goal.returns-clause-bytes
returns-clause-bytes c =
    let bytes = c.self.inside.bytes.items in
    let at = c.self.inside.at in
    let n = c.min-count.result in
    let le : n ≤ length bytes - at = search rules in
    let k : (at + n) - at ≡ n = omega arith in
    let got : c.copy_from_slice.new.self ≡ take n (drop at bytes) = cc (c.copy_from_slice.ensures.after, c.deref-2.ensures.value, k) in
    let all : 0 < length c.args.into.now → n ≡ 0 → length bytes ≤ at = search (rules, arith) in (
      ap (λ (v : SourceState). v.left) (sym c.self.view_is) ∙ read_splits bytes c.copy_from_slice.new.self (drop n c.args.into.now) at n le got,
      λ none room.
          let some : 0 < length c.args.into.now = omega (arith, length-append c.copy_from_slice.new.self (drop n c.args.into.now), length-drop n c.args.into.now) in
          drop_all (at + n) bytes (omega (arith, all some none)),
    )
