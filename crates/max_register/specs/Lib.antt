pub mod MaxRegister
