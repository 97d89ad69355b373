-- The hasher's cell is read as a state's, as in the walk of `hasher_of`.
use Rattle.cd_c.proofs.Walking.{[], ◌∷◌, refl, proved, ftrue, tables, ‵, raw, at_ret, ◌$◌}
use Rattle.cd_c.proofs.Walking.{◌∵◌, !, qed, done, drop, join, suffices, enter, of_opd}
use Rattle.cd_c.proofs.Walking.{addr, from, load, look_raw, stop, first, blocks, exec}
use Rattle.cd_c.proofs.Walking.{returns, alloc_all, pass_all, free_all, look_at, get}
use Rattle.cd_c.proofs.Walking.{through, sets, sets_last, take_at, give_at, env, yes}
use Rattle.cd_c.proofs.Walking.{plain, nothing, owned, makes, on_entry, Stays, walk_of}
use Rattle.cd_c.proofs.Walking.{says, stay_dropped, Goes-dropped, ends_at, unnamed}
use Rattle.cd_c.proofs.Walking.{named_again}
use Rattle.sha1.specs.contracts.Sha1 as taken
use Rattle.sha1.proofs.Sha1.TheLaws as taken_laws
use Rattle.cd_c.specs.contracts.state.DigestState as given
use Rattle.cd_c.proofs.state.DigestState.TheLaws as given_laws
use Rattle.cd_c.specs.contracts.state.state_of as f
use Rattle.cd_c.proofs.state.state_of.Statement.{statement}
use Rattle.cd_c.proofs.state.state_of.Code as code

abbrev stayed : Stays f.ended.signature.params f.ended.kept
stayed = (stay_dropped _ yes, tt)

pub state_of_spec : {M : Type 1} → statement M
state_of_spec 𝓤 𝓛 𝓜 𝓡 wired =
    let c = f.clauses 𝓛 𝓜.mem 𝓡.returns in
    let W = walk_of 𝓛 f.ended stayed c in
    let 𝓣 = tables 𝓤 𝓛.H 𝓜 𝓡 𝓡.env in
    proved 𝓛 f.ended stayed c 𝓜 𝓡
    (Goes-dropped 𝓛 0 (plain (λ _. taken.the_row)) yes (λ κs x w. refl), tt)
    f.Key.name code.function (code.unfolded 𝓤 𝓛.H 𝓜 𝓡 wired)
    (λ κs. ((λ d. taken_laws.lowered d ∷ []), tt)) (λ κs. (taken_laws.lowers.val_is, tt))
    (λ κs qs bounds a _ are.
    let v = taken_laws.lowered a.0 in
    let after : (given.the_row).Denot = record { hash = a.0.h; block = a.0.buffer; count = a.0.total } in
    let typed = (((taken_laws.the_row_laws).lawful 𝓛).typed a.0 (v ∷ []) are.0).0 in
    let y : W.Ghost = ((κs, qs, bounds, a, (v ∷ [], tt)), tt) in
    qed 𝓛 (raw (on_entry 𝓛 f.signature κs qs a y.0.4) ∷ ‵ ftrue ∷ []) ∵ drop ! $ drop ! $
    enter ! _ _ _ _ _ $ alloc_all ! (λ l. pass_all ! refl (typed, tt) $
    sets ! (of_opd ! (get ! refl)) refl typed $
    first ! $ blocks ! $
    sets ! (addr ! (from ! (stop !))) refl (tt, tt) $
    -- the local's cell is moved to the head, and read as the other type
    take_at ! 2 $ unnamed 𝓛 taken_laws.mir (l 2) v $
    sets_last ! (of_opd ! (load ! (through ! refl (stop !)) (look_raw ! 0 refl))) refl typed $
    named_again 𝓛 taken_laws.mir (l 2) v $ give_at ! 2 $
    exec ! 𝓣.C 𝓣.Λ (env code.Mir.locals l) code.Mir.t-3 (at_ret _ (W.post y)) $
    sets ! (of_opd ! (get ! refl)) refl typed $
    returns ! (look_at ! 0 refl) $ free_all ! refl $
    suffices ! _ (ends_at 𝓛 f.ended stayed c y v after (tt, tt) (tt, tt)) $ says ! refl $
    owned ! given.the_row _ (makes given.the_type given_laws.the_plain 𝓛) after _ are.0 $
    nothing ! $ nothing ! $ join ! $ nothing ! $ done !))
