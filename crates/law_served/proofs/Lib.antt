mod Brought
mod Origins
mod Written
